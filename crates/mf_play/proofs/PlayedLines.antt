-- Lines that play one after the other over a store.
use Rattle.std.proofs.Common.{◌≡◌, ℕ, zero, suc, ◌+◌, List, [], ◌∷◌, map, take, length, Some, Ok, Err, refl}
use Rattle.std.proofs.Common.{sym, ap, ◌∙◌, subst, arith}
use Rattle.std.specs.Prelude.{slice_get, option_map}
use Rattle.std.proofs.Math.Seq.{take-length}
use Rattle.std.proofs.lemmas.List.{length-map}
use Rattle.std.proofs.lemmas.Option.{slice_get-map}
use Rattle.mf_base.specs.declared.fault.Fault.{Fault}
use Rattle.mf_journal.specs.Chain.{line_of_row}
use Rattle.mf_journal.specs.declared.chain.JournalRow.{JournalRow}
use Rattle.mf_model.specs.Institution.{Institution, JournalLine}
use Rattle.mf_model.specs.declared.store.InstitutionStore.{Ghosts}
use Rattle.mf_play.specs.declared.stop.Stop.{Stop}
use Rattle.mf_play.specs.Play.{IsPlayed, PlaysTo}
use Rattle.mf_play.specs.Playing.{PlaysLine, PlaysLines}

-- one line more
one_more : (i j k : Institution) (lines : List JournalLine) (place : ℕ) (l : JournalLine)
    → slice_get lines place ≡ Some l → PlaysTo i (take place lines) j → IsPlayed j l k
    → PlaysTo i (take (suc place) lines) k
one_more i j k [] place l there p one = cc
one_more i j k (x ∷ xs) zero l there p one =
    let same : x ≡ l = cc in
    (k, subst (λ y. IsPlayed i y k) (sym same) (subst (λ m. IsPlayed m l k) p one), refl)
one_more i j k (x ∷ xs) (suc place) l there p one = (p.0, p.1, one_more p.0 j k xs place l there p.2 one)

-- the line at a row's place
line_there : (rows : List JournalRow) (place : ℕ) (row : JournalRow) → slice_get rows place ≡ Some row
    → slice_get (map line_of_row rows) place ≡ Some (line_of_row row)
line_there rows place row there = slice_get-map line_of_row rows place ∙ ap (option_map line_of_row) there

module _ {S : Type 0} (store : Ghosts S) where
  -- the rows before a place played, and the store stands for what was reached
  pub record HavePlayed (rows : List JournalRow) (place : ℕ) (old now : S) : Type 0 where
    pub premise : store.clean now → store.clean old
    pub reached : store.clean now → (i : Institution) → store.stands old i → (j : Institution)
        × PlaysTo i (take place (map line_of_row rows)) j × store.stands now j

  pub none_played : (rows : List JournalRow) (old : S) → HavePlayed rows 0 old old
  none_played rows old = record { premise = λ k. k; reached = λ k i s. (i, refl, s) }

  pub played_more : (rows : List JournalRow) (place : ℕ) (row : JournalRow) (old now new : S)
      → slice_get rows place ≡ Some row → HavePlayed rows place old now
      → PlaysLine store (line_of_row row) now new (Ok (Ok tt)) → HavePlayed rows (place + 1) old new
  played_more rows place row old now new there so one =
      let next : suc place ≡ place + 1 = omega arith in
      subst (λ n. HavePlayed rows n old new) next (record {
        premise = λ k. so.premise (one.premise k);
        reached = λ k i s.
            let before = so.reached (one.premise k) i s in
            let after = one.came k before.0 before.2 in (
              after.0,
              one_more i before.0 after.0 (map line_of_row rows) place (line_of_row row)
                  (line_there rows place row there) before.1 after.1,
              after.2,
            );
      })

  pub stopped_there : (rows : List JournalRow) (place : ℕ) (row : JournalRow) (why : Stop) (old now new : S)
      → slice_get rows place ≡ Some row → HavePlayed rows place old now
      → PlaysLine store (line_of_row row) now new (Ok (Err why))
      → PlaysLines store (map line_of_row rows) old new (Ok (Err (place, why)))
  stopped_there rows place row why old now new there so one = record {
    premise = λ k. so.premise (one.premise k);
    came = λ k i s.
        let before = so.reached (one.premise k) i s in
        let here = one.came k before.0 before.2 in (
          record {
            reached = before.0;
            before = before.1;
            line = line_of_row row;
            there = line_there rows place row there;
            stops = here.0;
          },
          here.1,
        );
  }

  pub gave_up_there : (rows : List JournalRow) (place : ℕ) (l : JournalLine) (fault : Fault) (old now new : S)
      → HavePlayed rows place old now → PlaysLine store l now new (Err fault)
      → PlaysLines store (map line_of_row rows) old new (Err fault)
  gave_up_there rows place l fault old now new so one = record {
    premise = λ k. so.premise (one.premise k);
    came = λ k i s.
        let before = so.reached (one.premise k) i s in
        let here = one.came k before.0 before.2 in
        (here.0, place, before.0, before.1, here.1);
  }

  pub all_played : (rows : List JournalRow) (place : ℕ) (old new : S) → length rows ≡ place
      → HavePlayed rows place old new → PlaysLines store (map line_of_row rows) old new (Ok (Ok tt))
  all_played rows place old new all so =
      let whole : take place (map line_of_row rows) ≡ map line_of_row rows =
      ap (λ n. take n (map line_of_row rows)) (sym (length-map rows line_of_row ∙ all))
      ∙ take-length (map line_of_row rows) in
      record {
        premise = so.premise;
        came = λ k i s. let to = so.reached k i s in
            (to.0, subst (λ ls. PlaysTo i ls to.0) whole to.1, to.2);
      }
