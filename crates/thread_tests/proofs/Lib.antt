mod Crossing
mod Opened
