-- To read: Runs (why whole runs are safe) and Happening (one event) first. Then the events by kind:
-- Taking (a node's step and what it sends; over Places, Steps, Changing, Serving), Reaching (what
-- arrives), Restarting (faults and restarts), Numbers (lists that a loop makes), Starting (a new world).
-- MemberNodes, Writing and Outcomes are lemmas; Refusing and Applying are about faults.
pub mod Places
pub mod Steps
pub mod Serving
pub mod Writing
pub mod Outcomes
pub mod MemberNodes
pub mod Runs
pub mod Changing
pub mod Taking
pub mod Restarting
pub mod Numbers
pub mod Starting
pub mod Happening
pub mod Reaching
pub mod Refusing
pub mod Applying
