use Rattle.http_writing.specs.Ask.{ask_text}
use Rattle.peer_fetch.proofs.AskTexts.{ask_spelled}
use Rattle.peer_fetch.proofs.AskReads.{ask_reads}
use Rattle.peer_fetch.proofs.laws.written_asks_are_read_back.Goals as goal

pub returns : goal.returns
returns c = λ form ask via rest reader result writable name reads.
    ask_reads (ask_text form ask via) rest reader ask result (ask_spelled form ask via writable name) reads
