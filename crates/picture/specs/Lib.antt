-- What the report program writes for the bytes of a picture.
pub mod Response
