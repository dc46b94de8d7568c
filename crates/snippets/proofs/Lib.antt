mod Cuts
mod Firsts
mod InPlace
mod Markup
mod Steps
