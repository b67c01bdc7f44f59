mod Behind
mod GroupLines
mod LinkLines
mod StatementLines
