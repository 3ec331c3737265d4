-- The key of a text as a function; `url_key` has the same as the relation `HasKey`.
use Rattle.std.specs.Prelude.{◌≡◌, ℕ, List, Option, Some, None, Result, Ok, Err}
use Rattle.http_uri.specs.declared.uri.Uri.{Uri}
use Rattle.url_key.specs.declared.fault.KeyFault.{KeyFault}
use Rattle.url_key.specs.declared.fault.KeyFault.TheVariants.{NotUri}
use Rattle.url_key.specs.Key.{HasKey, early_fault, key_of_uri}
use Rattle.values_keys.specs.UriIn.{uri_in}

-- the outcome: the early fault if there is one, else that of the URI that the text spells
abbrev pub outcome_by : Option KeyFault → Option Uri → Result (List ℕ) KeyFault
outcome_by (Some fault) spelled = Err fault
outcome_by None None = Err NotUri
outcome_by None (Some u) = key_of_uri u

-- the key of the text, or its first fault
abbrev pub outcome_of : List ℕ → Result (List ℕ) KeyFault
outcome_of text = outcome_by (early_fault text) (uri_in text)

-- the key, if there is one
abbrev pub key_in : Result (List ℕ) KeyFault → Option (List ℕ)
key_in (Ok key) = Some key
key_in (Err fault) = None

-- the key of the text, if it has one
abbrev pub key_of : List ℕ → Option (List ℕ)
key_of text = key_in (outcome_of text)

-- this function gives the key that each text has, and none if the text has none
abbrev pub GivesKeys : (List ℕ → Option (List ℕ)) → Type 0
GivesKeys given = (text : List ℕ) (outcome : Result (List ℕ) KeyFault) → HasKey text outcome →
    given text ≡ key_in outcome
