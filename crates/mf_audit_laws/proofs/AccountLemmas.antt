-- Rows of accounts that differ in nothing from those that replaying gives.
use Rattle.std.proofs.Common.{◌≡◌, ◌∙◌, ℕ, List, [], ◌∷◌, map, refl, subst, ap, Ordering, Less, inl, inr}
use Rattle.std.specs.Cmp.{IsTotalOrder}
use Rattle.std.specs.List.{Contains}
use Rattle.sqlite_trees.specs.Tree.{IsAscending}
use Rattle.mf_store_schema.specs.Rows.{Lists, by_instalment, by_share}
use Rattle.mf_store_schema.specs.Versions.{number_of}
use Rattle.mf_store_schema.specs.declared.versions.Version.{Version}
use Rattle.mf_store_schema.specs.declared.versions.Version.TheVariants.{First, Second, Third}
use Rattle.mf_store_schema.proofs.OrderLemmas.{by_instalment_total, by_share_total}
use Rattle.mf_store_values.specs.Flat.{tables_of}
use Rattle.mf_store_sound.specs.Held.{DoRise}
use Rattle.mf_store_sound.specs.Schemas.{lists_at}
use Rattle.mf_store_sound.specs.Sound.{AreOfSoundAt, AreUnder}
use Rattle.mf_store_sound.proofs.RiseLemmas.{instalments_rise, shares_rise}
use Rattle.mf_store_audit.specs.Differences.{AreDifferences, row_key}
use Rattle.mf_store_audit.specs.Findings.{AreDiffering, AreOfAccounts}
use Rattle.mf_store_audit.specs.Keys.{instalment_key, share_key}
use Rattle.mf_store_audit.specs.declared.finding.Finding.TheVariants as finding
use Rattle.mf_store_audit.specs.declared.finding.RowKey.{RowKey}
use Rattle.mf_audit_laws.proofs.FoundLemmas.{no_parts}
use Rattle.mf_audit_laws.proofs.MemberLemmas.{contains_none, same_rising}
use Rattle.mf_audit_laws.proofs.WalkLemmas.{all_stand, each_there}

-- a list is empty where what is told of it is
none_told : {A B : Type 0} (f : A → B) (xs : List A) → map f xs ≡ [] → xs ≡ []
none_told f [] e = refl
none_told f (x ∷ xs) e = absurd (cc)

module _ {R : Type 0} (cmp : R → R → Ordering) (total : IsTotalOrder cmp) (key : R → ℕ × ℕ × ℕ) where
  -- rows that rise, and differ in no row, are the same
  same_rows : (made stored : List R) (keys : List RowKey) → keys ≡ [] → AreDifferences key made stored keys
      → IsAscending (λ a b. cmp a b ≡ Less) made → IsAscending (λ a b. cmp a b ≡ Less) stored
      → ¬ ¬ (made ≡ stored)
  same_rows made stored keys none h rise_made rise_stored fails =
      all_stand (λ r. Contains stored r) made (each_there (λ r. ¬ ¬ Contains stored r) made (λ r at lacks.
      contains_none (row_key (key r)) (subst (λ ks. Contains ks (row_key (key r))) none (h.every (row_key (key r))
      (inl (record { row = r; key_is = refl; there = at; lacking = lacks }))))))
      (λ over.
      all_stand (λ r. Contains made r) stored (each_there (λ r. ¬ ¬ Contains made r) stored (λ r at lacks.
      contains_none (row_key (key r)) (subst (λ ks. Contains ks (row_key (key r))) none (h.every (row_key (key r))
      (inr (record { row = r; key_is = refl; there = at; lacking = lacks }))))))
      (λ back. fails (same_rising cmp total made stored rise_made rise_stored over back)))

-- rows of accounts that differ in nothing from the replay
module _ (v : Version) (t : Lists) (rise : DoRise t) (u : AreUnder (number_of v) t) (h : AreDiffering v t []) where
  no_keys : (h.instalments ≡ []) × (h.shares ≡ [])
  no_keys =
      let none = no_parts (map finding.Instalment h.instalments) (map finding.Share h.shares) h.found_are in
      (none_told finding.Instalment h.instalments none.0, none_told finding.Share h.shares none.1)

  same_instalments : ¬ ¬ ((tables_of u.institution).instalments ≡ t.instalments)
  same_instalments = same_rows by_instalment by_instalment_total instalment_key _ t.instalments h.instalments
      no_keys.0 (h.instalments_are u.institution u.sound u.rows_are rise) (instalments_rise u.institution u.sound)
      rise.all.1.1.1.1.1.1.1.1.1.0

  same_shares : ¬ ¬ ((tables_of u.institution).shares ≡ t.shares)
  same_shares = same_rows by_share by_share_total share_key _ t.shares h.shares no_keys.1
      (h.shares_are u.institution u.sound u.rows_are rise) (shares_rise u.institution u.sound)
      rise.all.1.1.1.1.1.1.1.1.1.1.0

-- where nothing is found of accounts either, the rows are those of a sound institution
pub none_differ : (v : Version) (t : Lists) → DoRise t → lists_at v t ≡ t → AreUnder (number_of v) t
    → AreOfAccounts v t [] → ¬ ¬ AreOfSoundAt v t
none_differ First t rise at u h fails =
    fails (record { institution = u.institution; sound = u.sound; rows_are = u.rows_are ∙ at })
none_differ Second t rise at u h fails =
    same_instalments Second t rise u h (λ instalments. same_shares Second t rise u h (λ shares. fails (record {
      institution = u.institution;
      sound = u.sound;
      rows_are = λ z. record (u.rows_are z) {
        instalments = instalments z;
        shares = shares z;
        journal = ap (λ (l : Lists). l.journal) at z;
      };
    })))
none_differ Third t rise at u h fails =
    same_instalments Third t rise u h (λ instalments. same_shares Third t rise u h (λ shares. fails (record {
      institution = u.institution;
      sound = u.sound;
      rows_are = λ z. record (u.rows_are z) {
        instalments = instalments z;
        shares = shares z;
        journal = ap (λ (l : Lists). l.journal) at z;
      };
    })))
