pub mod LinkStateLaws
