mod Choice
mod Counting
mod LinkedNumbers
mod LoadedWords
mod Opening
mod Steps
