-- Each file stands alone. Gathering: what is gathered goes on from line to line. Long: lines of no word, and of more
-- than three, are bad. Taking: the octets that are read are the lines of the input. Rows: what is written for one after
-- another is the whole list. Counts: a part of a list is no longer than the list. Answering: the answers to the lines, put
-- together.
pub mod Gathering
pub mod Long
pub mod Taking
pub mod Rows
pub mod Counts
pub mod Answering
