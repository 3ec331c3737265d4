-- Which files the folder of a cluster may have before it is opened.
use Rattle.std.specs.Prelude.{Bool, true, false, not, ◌&&◌}

-- a folder has the file of no cache but a member; it lacks that of a founding member only where it has no master's file,
-- as after a first start that was cut off [Cluster 7]
abbrev pub file_fits : Bool → Bool → Bool → Bool → Bool
file_fits has_master is_member is_founding true = is_member
file_fits has_master is_member is_founding false = not (has_master && is_founding)
