mod NotedLemmas
mod RunLemmas
