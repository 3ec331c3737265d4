-- The status of a process that ends because of its command line.
use Rattle.std.specs.Prelude.{ℕ}
use Rattle.clap.specs.declared.error.kind.ErrorKind.{ErrorKind}
use Rattle.clap.specs.declared.error.kind.ErrorKind.TheVariants as kinds

-- 0 after help or the version, where that was asked for, 1 where there was no memory, and 2 where the words are wrong [Command 1]
abbrev pub status_for : ErrorKind → ℕ
status_for kinds.DisplayHelp = 0
status_for kinds.DisplayVersion = 0
status_for kinds.OutOfMemory = 1
status_for _ = 2
