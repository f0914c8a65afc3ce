mod Arguments
mod Rows
mod Walking
mod Results
