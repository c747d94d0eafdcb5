-- Who may send a request.

-- any staff, officers and managers, managers, or managers of office 1
pub data Need : Type 0 where
  A_teller : Need
  An_officer : Need
  A_manager : Need
  The_head : Need
