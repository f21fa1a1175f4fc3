mod Numbers
mod Runs
