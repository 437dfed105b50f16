mod Words
mod LineLoop
mod Written
