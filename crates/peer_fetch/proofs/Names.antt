-- The names of the fields that caches write and the method GET are tokens.
use Rattle.std.proofs.Common.{refl, codes}
use Rattle.httparse.specs.Grammar.{IsToken, is_token_byte}
use Rattle.peer_fetch.proofs.Pairs.{token_from}

pub get_token : IsToken (codes "GET")
unfolding is_token_byte
get_token = token_from (codes "GET") refl refl

pub host_token : IsToken (codes "host")
unfolding is_token_byte
host_token = token_from (codes "host") refl refl

pub cache_control_token : IsToken (codes "cache-control")
unfolding is_token_byte
cache_control_token = token_from (codes "cache-control") refl refl

pub connection_token : IsToken (codes "connection")
unfolding is_token_byte
connection_token = token_from (codes "connection") refl refl

pub via_token : IsToken (codes "via")
unfolding is_token_byte
via_token = token_from (codes "via") refl refl

pub member_token : IsToken (codes "x-purge-member")
unfolding is_token_byte
member_token = token_from (codes "x-purge-member") refl refl

pub age_token : IsToken (codes "age")
unfolding is_token_byte
age_token = token_from (codes "age") refl refl

pub stamp_token : IsToken (codes "x-purge-stamp")
unfolding is_token_byte
stamp_token = token_from (codes "x-purge-stamp") refl refl

pub length_token : IsToken (codes "content-length")
unfolding is_token_byte
length_token = token_from (codes "content-length") refl refl
