-- Roles by their names in requests, and the numbers by which tables keep them, each from 1.
use Rattle.std.specs.Prelude.{ℕ, List, [], ◌∷◌, codes}
use Rattle.mf_office.specs.declared.staff.Role.{Role}
use Rattle.mf_office.specs.declared.staff.Role.TheVariants.{Teller, Officer, Manager}

-- the name of a role
abbrev pub role_name : Role → List ℕ
role_name Teller = codes "teller"
role_name Officer = codes "officer"
role_name Manager = codes "manager"

-- the number of a role
abbrev pub role_number : Role → ℕ
role_number Teller = 1
role_number Officer = 2
role_number Manager = 3

-- the roles, in the order of their numbers
abbrev pub roles : List Role
roles = Teller ∷ Officer ∷ Manager ∷ []
