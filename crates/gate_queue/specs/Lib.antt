pub mod Laws
pub mod WholeQueue
