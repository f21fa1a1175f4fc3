mod Searching
mod Listening
mod Hearing
