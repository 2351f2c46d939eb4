mod Strips
mod OneByOne
