pub mod FoldFiles
