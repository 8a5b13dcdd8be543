pub mod TreeTable
