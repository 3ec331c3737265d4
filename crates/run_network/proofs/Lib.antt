-- Finding is about looking an item up in its bag; Sending (datagrams), Lists (requests and
-- responses) and Waiting are about adding one; Clears and Posting about adding several; Printing
-- about hashes.
pub mod Finding
pub mod Sending
pub mod Lists
pub mod Waiting
pub mod Clears
pub mod Posting
pub mod Printing
