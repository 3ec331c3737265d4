-- Read first KeyLemmas (`made`: what is read is a key and keeps the text's parts) and
-- PlainKeyLemmas (`plain_has_key`: a plain key has itself as key). The others serve them:
-- HostLemmas and AuthorityLemmas are on authorities, PlainLemmas and PathLemmas on octets and
-- paths. TextLemmas and FourLemmas serve the loops over digits and over four octets at a time.
pub mod TextLemmas
pub mod AuthorityLemmas
pub mod KeyLemmas
pub mod HostLemmas
pub mod PlainLemmas
pub mod PathLemmas
pub mod FourLemmas
pub mod PlainKeyLemmas
