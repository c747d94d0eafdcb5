use Rattle.mf_office.proofs.DepthLemmas.{key_depth-most, key_depth-room}
use Rattle.mf_office.proofs.laws.depth_by_key.Goals as goal

pub returns-clause-most : goal.returns-clause-most
returns-clause-most c = key_depth-most

pub returns-clause-room : goal.returns-clause-room
returns-clause-room c = key_depth-room
