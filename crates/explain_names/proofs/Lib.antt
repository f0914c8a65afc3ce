mod Any
mod Views
