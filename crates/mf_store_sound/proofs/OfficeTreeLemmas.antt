-- Rows of offices that are a tree, told row by row.
use Rattle.std.proofs.Common.{◌≡◌, ◌↔◌, ◌<◌, ◌≤◌, ◌∙◌, ℕ, Bool, true, false, cond, List, [], ◌∷◌, map, filter, Option}
use Rattle.std.proofs.Common.{Some, None, refl, sym, ap, subst, arith, ◌==◌, true≢false}
use Rattle.std.specs.List.{AllByRecursion}
use Rattle.std.specs.Option.{is_some}
use Rattle.std.proofs.lemmas.Bool.{eq-eqb, ne_eqb, eqb-true}
use Rattle.std.proofs.lemmas.List.Elements.{recursion_from_All, filter_passes}
use Rattle.sqlite_keyed.proofs.ListLemmas.{all-filter, all-map, all-slice_get, all_both, all_weaker, slice_get-filter}
use Rattle.sqlite_keyed.proofs.ListLemmas.{ascending-map, ascending_from_map}
use Rattle.mf_office.specs.Keys.{GrowsByParents, key_of, key_depth, head_key, child_key}
use Rattle.mf_office.specs.Numbers.{IsNumberUpTo}
use Rattle.mf_office.specs.Tree.{IsTreeOf}
use Rattle.mf_model.specs.Institution.{Office, office_at}
use Rattle.mf_model.specs.Tree.{parent_of, is_there}
use Rattle.mf_store_schema.specs.declared.offices.OfficeRow.{OfficeRow}
use Rattle.mf_store_values.specs.Flat.{above_of, office_under}
use Rattle.mf_store_values.specs.Parts.{office_of}
use Rattle.mf_store_sound.specs.Offices.{IsNumberedAndNamed, AreOffices, AscendFrom, office_row_in, HasParentsText}
use Rattle.mf_store_sound.specs.Offices.{IsOfficeRow, AreOfficeRows}
use Rattle.mf_store_sound.proofs.OfficeRowLemmas.{NumbersRise, numbers_rise}

-- texts that grow by parents are the keys of a tree, and only they
abbrev pub KeysLaw : Type 0
KeysLaw = (there : ℕ → Bool) (parents : ℕ → Option ℕ) (text : ℕ → List ℕ) → GrowsByParents there parents text
    ↔ (IsTreeOf there parents × ((x : ℕ) → there x ≡ true → text x ≡ key_of parents x))

abbrev text_in : Option OfficeRow → List ℕ
text_in None = []
text_in (Some r) = r.hkey

-- ---- what is found of the rows is what is found of their offices

there_found : (rows : List OfficeRow) (x : ℕ) → is_there (map office_of rows) x ≡ is_some (office_row_in x rows)
there_found [] x = refl
there_found (r ∷ rs) x =
    elim (r.number == x) as (λ b. is_some (cond b (Some (office_of r)) (office_at x (map office_of rs)))
    ≡ is_some (cond b (Some r) (office_row_in x rs))) [ true ↦ refl | false ↦ there_found rs x ]

parent_found : (rows : List OfficeRow) (x : ℕ) → parent_of (map office_of rows) x ≡ above_of (office_row_in x rows)
parent_found [] x = refl
parent_found (r ∷ rs) x =
    elim (r.number == x) as (λ b. cond b r.parent (parent_of (map office_of rs) x)
    ≡ above_of (cond b (Some r) (office_row_in x rs))) [ true ↦ refl | false ↦ parent_found rs x ]

some_row : (o : Option OfficeRow) → is_some o ≡ true → (r : OfficeRow) × (o ≡ Some r)
some_row None h = absurd (true≢false (sym h))
some_row (Some r) h = (r, refl)

some_above : (o : Option OfficeRow) (p : ℕ) → above_of o ≡ Some p → is_some o ≡ true
some_above None p e = absurd (cc)
some_above (Some r) p e = refl

-- each row is found by its number
each_found : (rows : List OfficeRow) → NumbersRise rows
    → AllByRecursion (λ (r : OfficeRow). office_row_in r.number rows ≡ Some r) rows
each_found [] up = tt
each_found (o ∷ os) up = (
  ap (λ b. cond b (Some o) (office_row_in o.number os)) (eq-eqb o.number o.number refl),
  all_both _ _ _ (λ z lt is. ap (λ b. cond b (Some o) (office_row_in z.number os)) (ne_eqb o.number z.number
      (λ same. omega arith)) ∙ is)
      os up.0 (each_found os up.1),
)

ascend_of : (n : ℕ) (rows : List OfficeRow) → AllByRecursion (λ (r : OfficeRow). n < r.number) rows → NumbersRise rows
    → AscendFrom n rows
ascend_of n [] low up = tt
ascend_of n (r ∷ rs) low up = (low.0, ascend_of r.number rs up.0 up.1)

-- ---- texts

texts_of : (parents : ℕ → Option ℕ) (rows : List OfficeRow) → map (office_under parents) (map office_of rows) ≡ rows
    → AllByRecursion (λ (r : OfficeRow). key_of parents r.number ≡ r.hkey) rows
texts_of parents rows e = subst (AllByRecursion (λ (r : OfficeRow). key_of parents r.number ≡ r.hkey)) e
    (all-map (λ (r : OfficeRow). key_of parents r.number ≡ r.hkey) (office_under parents) (λ f. refl)
    (map office_of rows))

keys_of : (parents : ℕ → Option ℕ) (rows : List OfficeRow) → AllByRecursion (λ (r : OfficeRow). key_of parents r.number
    ≡ r.hkey) rows → map (office_under parents) (map office_of rows) ≡ rows
keys_of parents [] all = refl
keys_of parents (r ∷ rs) all = λ t. record r { hkey = all.0 t } ∷ keys_of parents rs all.1 t

module _ (rows : List OfficeRow) where
  abbrev there : ℕ → Bool
  there = is_there (map office_of rows)

  abbrev parents : ℕ → Option ℕ
  parents = parent_of (map office_of rows)

  abbrev text : ℕ → List ℕ
  text = λ x. text_in (office_row_in x rows)

  -- the texts grow by the parents that the rows themselves name
  abbrev Grows : Type 0
  Grows = GrowsByParents (λ x. is_some (office_row_in x rows)) (λ x. above_of (office_row_in x rows)) text

  same_growth : Grows ≡ GrowsByParents there parents text
  same_growth = λ t. GrowsByParents (λ x. sym (there_found rows x) t) (λ x. sym (parent_found rows x) t) text

  -- what holds at each row that is found holds of the number
  at_found : (P : OfficeRow → Type 0) → AllByRecursion P rows → (x : ℕ) (C : Option OfficeRow → Type 0)
      → ((r : OfficeRow) → P r → r.number ≡ x → C (Some r)) → is_some (office_row_in x rows) ≡ true
      → C (office_row_in x rows)
  at_found P all x C each h =
      let p : OfficeRow → Bool = λ q. q.number == x in
      let found = some_row (office_row_in x rows) h in
      let first = slice_get-filter p rows ∙ found.1 in
      let passes = recursion_from_All (λ q. p q ≡ true) (filter p rows) (filter_passes p rows) in
      subst C (sym found.1) (each found.0 (all-slice_get P (filter p rows) 0 found.0 first (all-filter P p rows all))
      (eqb-true found.0.number x (all-slice_get (λ q. p q ≡ true) (filter p rows) 0 found.0 first passes)))

  head_alone : (o : Option ℕ) (r : OfficeRow) → HasParentsText rows o r → r.number ≡ 1 → (o ≡ None)
      × (r.hkey ≡ head_key)
  head_alone None r h e = (refl, h.1)
  head_alone (Some p) r h e = absurd (h.0 e)

  grows : AllByRecursion (IsOfficeRow rows) rows → is_some (office_row_in 1 rows) ≡ true → Grows
  grows each head =
      let told : (r : OfficeRow) → IsOfficeRow rows r → (o : Option ℕ) → r.parent ≡ o → HasParentsText rows o r =
      λ r own o is. subst (λ q. HasParentsText rows q r) is own.text in
      let found = at_found (IsOfficeRow rows) each in
      record {
        numbered = λ x. found x (λ o. IsNumberUpTo 9999 x) (λ r own its. subst (IsNumberUpTo 9999) its own.own.number);
        head_there = head;
        head = found 1 (λ o. above_of o ≡ None) (λ r own its. (head_alone r.parent r own.text its).0) head;
        only_head = λ x. found x (λ o. above_of o ≡ None → x ≡ 1) (λ r own its is. sym its ∙ (told r own None is).0);
        parents_there = λ x p. found x (λ o. above_of o ≡ Some p → is_some (office_row_in p rows) ≡ true)
            (λ r own its is. ap is_some (told r own (Some p) is).2);
        head_text = found 1 (λ o. text_in o ≡ head_key) (λ r own its. (head_alone r.parent r own.text its).1) head;
        child_text = λ x p. found x (λ o. above_of o ≡ Some p → text_in o ≡ child_key (text p) x) (λ r own its is.
            let a = told r own (Some p) is in a.3 ∙ (λ t. child_key (text_in (sym a.2 t)) (its t)));
        depth = λ x. found x (λ o. key_depth (text_in o) ≤ 6) (λ r own its. own.depth);
      }

  pub offices_from_rows : KeysLaw → AreOfficeRows rows → AreOffices rows
  offices_from_rows law h =
      let up = (numbers_rise 0 rows h.ascend).1 in
      let tree = (law there parents text).0 (subst (λ (G : Type 0). G) same_growth (grows h.each h.head)) in
      record {
        each = all_weaker _ _ (λ r a. a.own) rows h.each;
        tree = record {
          ascending = ascending-map (λ (f g : Office). f.number < g.number) office_of rows up;
          head = tree.0.head;
          head_there = tree.0.head_there;
          parents_there = λ x p e. tree.0.parents_there x p (there_found rows x ∙ some_above (office_row_in x rows) p
              (sym (parent_found rows x) ∙ e)) e;
          all_below = tree.0.all_below;
        };
        keys = keys_of parents rows (all_weaker _ _ (λ r is. sym (tree.1 r.number (there_found rows r.number
            ∙ ap is_some is)) ∙ ap text_in is) rows
            (each_found rows up));
      }

  has_text : Grows → (o : Option ℕ) (r : OfficeRow) → r.parent ≡ o → office_row_in r.number rows ≡ Some r
      → HasParentsText rows o r
  has_text g None r e is =
      let one = g.only_head r.number (ap is_some is) (ap above_of is ∙ e) in
      (one, sym (ap text_in is) ∙ ap text one ∙ g.head_text)
  has_text g (Some p) r e is =
      let named : above_of (office_row_in r.number rows) ≡ Some p = ap above_of is ∙ e in
      let above = some_row (office_row_in p rows) (g.parents_there r.number p (ap is_some is) named) in (
        λ one. absurd (let n : None ≡ Some p = sym g.head ∙ (λ t. above_of (office_row_in (sym one t) rows))
            ∙ named in cc),
        above.0,
        above.1,
        sym (ap text_in is) ∙ g.child_text r.number p (ap is_some is) named
            ∙ (λ t. child_key (text_in (above.1 t)) r.number),
      )

  pub rows_from_offices : KeysLaw → AreOffices rows → AreOfficeRows rows
  rows_from_offices law h =
      let up = ascending_from_map (λ (f g : Office). f.number < g.number) office_of rows h.tree.ascending in
      let here : (x : ℕ) → there x ≡ true → is_some (office_row_in x rows) ≡ true = λ x e. sym (there_found rows x)
      ∙ e in
      let tree : IsTreeOf there parents = record {
        numbered = λ x e. at_found IsNumberedAndNamed h.each x (λ o. IsNumberUpTo 9999 x)
            (λ r own its. subst (IsNumberUpTo 9999) its own.number) (here x e);
        head_there = h.tree.head_there;
        head = h.tree.head;
        parents_there = λ x p e. h.tree.parents_there x p;
        all_below = h.tree.all_below;
      } in
      let texts : (x : ℕ) → there x ≡ true → text x ≡ key_of parents x = λ x e.
      at_found (λ (r : OfficeRow). key_of parents r.number ≡ r.hkey) (texts_of parents rows h.keys) x
      (λ o. text_in o ≡ key_of parents x) (λ r own its. sym own ∙ ap (key_of parents) its) (here x e) in
      let g = subst (λ (G : Type 0). G) (sym same_growth) ((law there parents text).1 (tree, texts)) in
      record {
        ascend = ascend_of 0 rows (all_weaker _ _ (λ r own. own.number.0) rows h.each) up;
        each = all_both _ _ _ (λ r own is. record {
          own = own;
          text = has_text g r.parent r refl is;
          depth = subst (λ o. key_depth (text_in o) ≤ 6) is (g.depth r.number (ap is_some is));
        }) rows h.each (each_found rows up);
        head = here 1 h.tree.head_there;
      }
