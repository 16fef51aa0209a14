pub mod BenchSheets
