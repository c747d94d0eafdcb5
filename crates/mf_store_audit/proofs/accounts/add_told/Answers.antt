use Rattle.std.proofs.Common.{◌≡◌, ◌∙◌, ◌++◌, [], ◌∷◌, false, length, get_or, sym, arith, rules, true≢false}
use Rattle.std.specs.Vec.{vec_len}
use Rattle.std.proofs.lemmas.Bool.Decides.{nat_tests}
use Rattle.std.proofs.lemmas.List.{get_or_default}
use Rattle.mf_store_audit.specs.Findings.{account_told}
use Rattle.mf_store_audit.specs.declared.finding.RowKey.{RowKey}
use Rattle.mf_store_audit.proofs.DifferenceLemmas.{one_told}
use Rattle.mf_store_audit.proofs.accounts.add_told.Goals as goal
use Rattle.mf_store_audit.proofs.accounts.add_told.Goals.{else-not-all-via-then-not-all+else-not-is_empty}
use Rattle.mf_store_audit.proofs.accounts.add_told.Goals.{else-not-all-via-else-not-all}

pub loop-key-preserved : goal.loop-key-preserved
loop-key-preserved c =
    let none : c.args.all ≡ false → length c.loop-key.findings.items ≡ 0 = λ no_. elim c.else-not-all.branch [
      | else-not-all-via-then-not-all+else-not-is_empty w ↦
          let empty = w.if-not-is_empty.ensures {u = tt} in
          let no_length : vec_len c.loop-key.findings ≡ 0 = grind (arith, nat_tests) in
          let same : length c.loop-key.findings.items ≡ vec_len c.loop-key.findings = search rules in
          same ∙ no_length
      | else-not-all-via-else-not-all w ↦ absurd (true≢false (sym w.if-not-all.false ∙ no_))
    ] in
    let keys = c.args.keys.now in
    let blank : RowKey = record { office = 0; loan = 0; number = 0 } in
    let key = get_or keys c.loop-key.key-index blank in
    one_told (account_told c.args.table) c.args.all keys c.args.findings.now.items c.loop-key.findings.items
    c.push.new.self.items c.loop-key.key-index key c.loop-key-test.true
    (get_or_default keys c.loop-key.key-index blank key c.loop-key-test.true)
    ((c.in_ok-push.ensures {u = tt}).items ∙ (λ t. c.loop-key.findings.items ++ c.told.ensures t ∷ [])) none
    c.loop-key.invariant
