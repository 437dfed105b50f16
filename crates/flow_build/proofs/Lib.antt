mod Shapes
mod Early
mod Small
mod Near
