mod Products
mod LengthLemmas
mod ShortLemmas
