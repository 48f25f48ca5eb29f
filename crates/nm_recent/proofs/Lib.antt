mod RecentLemmas
