mod BookCells
mod Counting
mod Moving
mod Results
mod Snocs
