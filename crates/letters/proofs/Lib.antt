mod Numbers
mod Fields
mod Writing
mod Reading
