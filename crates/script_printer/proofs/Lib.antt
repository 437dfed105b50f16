mod OneScript
mod Lines
mod Loop
mod Readings
