-- Whether entries that were read can be one loan's.
use Rattle.std.specs.Prelude.{◌==◌, ◌||◌, not, Bool, List}
use Rattle.std.specs.List.{list_all}
use Rattle.mf_account.specs.declared.entry.Entry.{Entry}
use Rattle.mf_account.specs.Kinds.{is_seal}
use Rattle.mf_account.specs.Standing.{is_before}

-- every other standing entry comes before this one
abbrev pub is_last_of : List Entry → Entry → Bool
is_last_of entries e = list_all (λ (f : Entry). f.reversed || ((f.seq == e.seq) || is_before f e)) entries

-- a write-off or a refund that stands is the last of the standing entries
abbrev pub are_seals_last : List Entry → Bool
are_seals_last entries = list_all (λ (e : Entry). e.reversed || (not (is_seal e.kind) || is_last_of entries e)) entries
