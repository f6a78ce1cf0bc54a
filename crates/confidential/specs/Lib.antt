-- How many bytes an asset, a value or a nonce takes, told by its prefix.
pub mod Width
pub mod Laws
