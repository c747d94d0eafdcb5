use Rattle.mf_store_archive.proofs.TextsLemmas.{texts_mean}
use Rattle.mf_store_archive.proofs.laws.texts_of_an_archive.Goals as goal

pub returns : goal.returns
returns c = texts_mean
