mod Cuts
mod MapRuns
