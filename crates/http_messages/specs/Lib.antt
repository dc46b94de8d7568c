pub mod EntityTag
pub mod Request
pub mod Response
