pub mod Shows
pub mod Live
