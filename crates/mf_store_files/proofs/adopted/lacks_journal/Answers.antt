use Rattle.std.proofs.Common.{inl, inr, sym, ◌∙◌, subst}
use Rattle.mf_store_schema.specs.Versions.{IsOfVersion}
use Rattle.mf_store_schema.specs.declared.versions.Version.TheVariants.{First, Second}
use Rattle.mf_store_sound.proofs.SchemaLemmas.{one_version}
use Rattle.mf_store_files.proofs.adopted.lacks_journal.Goals as goal

pub returns-in-None : goal.returns-in-None
returns-in-None c = (
  λ yes. absurd (cc),
  λ lacks. elim lacks [
    | inl is ↦ absurd (c.in-None.ensures.none (First, is))
    | inr is ↦ absurd (c.in-None.ensures.none (Second, is))
  ],
)

pub returns-in-Some : goal.returns-in-Some
returns-in-Some c =
    let v = c.in-Some.version in
    let ours = c.in-Some.ensures.some in
    let k = c.args.schema.now in (
      λ yes. elim (c.is_without_journal.ensures.0 yes) [
        | inl is ↦ inl (subst (λ w. IsOfVersion w k) is ours)
        | inr is ↦ inr (subst (λ w. IsOfVersion w k) is ours)
      ],
      λ lacks. c.is_without_journal.ensures.1 (elim lacks [
        | inl is ↦ inl (one_version v First (sym ours ∙ is))
        | inr is ↦ inr (one_version v Second (sym ours ∙ is))
      ]),
    )
