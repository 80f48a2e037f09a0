pub mod Vim
