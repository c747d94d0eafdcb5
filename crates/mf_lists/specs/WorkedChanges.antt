-- The journal of the small institution, and what is told of it, worked out by hand.
use Rattle.std.specs.Prelude.{ℕ, List, [], ◌∷◌, codes, Option, Some, None}
use Rattle.mf_model.specs.Institution.{Institution, JournalLine}
use Rattle.mf_lists.specs.declared.lines.ChangeLine.{ChangeLine}
use Rattle.mf_lists.specs.WorkedLists.{approval, small}

-- Zola submits a loan of Amina's
abbrev pub submitting : JournalLine
submitting = record {
  day = approval;
  office = 2;
  staff = 1;
  told = codes "08:15";
  method = codes "POST";
  path = codes "/loans";
  body = codes "{\"periods\":3}";
  named_office = 2;
  named_loan = 1;
}

-- a client of office 3 is entered by the head
abbrev elsewhere : JournalLine
elsewhere = record {
  day = approval;
  office = 1;
  staff = 1;
  told = [];
  method = codes "POST";
  path = codes "/clients";
  body = codes "{\"office\":3}";
  named_office = 3;
  named_loan = 0;
}

-- and one of office 2
abbrev entering : JournalLine
entering = record elsewhere { body = codes "{\"office\":2}"; named_office = 2 }

-- the head approves Amina's loan
abbrev approving : JournalLine
approving = record elsewhere { path = codes "/loans/0002-000001/approve"; body = []; named_office = 2; named_loan = 1 }

-- the small institution, which keeps a journal of these
abbrev pub noted : Institution
noted = record small { journal = Some (submitting ∷ elsewhere ∷ entering ∷ approving ∷ []) }

-- the first change of Amina's loan, which is the first of office 2 too
abbrev pub submitted : ChangeLine
submitted = record {
  number = 1;
  day = approval;
  caller = record { office = 2; staff = 1 };
  loan = Some 1;
  told = codes "08:15";
  method = codes "POST";
  path = codes "/loans";
  body = codes "{\"periods\":3}";
}

-- the second change of office 2
abbrev pub entered : ChangeLine
entered = record {
  number = 2;
  day = approval;
  caller = record { office = 1; staff = 1 };
  loan = None;
  told = [];
  method = codes "POST";
  path = codes "/clients";
  body = codes "{\"office\":2}";
}

-- the approval, at a place
abbrev pub approved_at : ℕ → ChangeLine
approved_at place = record {
  number = place;
  day = approval;
  caller = record { office = 1; staff = 1 };
  loan = Some 1;
  told = [];
  method = codes "POST";
  path = codes "/loans/0002-000001/approve";
  body = [];
}
