-- An entry that is reversed counts nothing.
use Rattle.std.proofs.Common.{◌≡◌, true, List, [], ◌∷◌, ◌++◌, length, refl, ap, ◌∙◌}
use Rattle.std.proofs.lemmas.List.Sums.{fold-append}
use Rattle.mf_account.specs.declared.entry.Entry.{Entry}
use Rattle.mf_account.specs.Standing.{with_mark, with_entry, standing_entries}

marked_last : (es : List Entry) (e : Entry)
    → with_mark (es ++ e ∷ []) (length es) true ≡ es ++ record e { reversed = true } ∷ []
marked_last [] e = refl
marked_last (x ∷ xs) e = ap (λ z. x ∷ z) (marked_last xs e)

-- the last entry, once it is reversed, stands no more
pub standing_before : (es : List Entry) (e : Entry)
    → standing_entries (with_mark (es ++ e ∷ []) (length es) true) ≡ standing_entries es
standing_before es e = ap standing_entries (marked_last es e) ∙ fold-append with_entry [] es _
