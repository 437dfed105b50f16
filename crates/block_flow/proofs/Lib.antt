mod Endings
mod Items
mod Standing
