mod Answering
mod Between
mod LeafLists
mod Least
mod Rest
mod Walk
