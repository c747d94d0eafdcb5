use Rattle.mf_store_verdict.proofs.FileLemmas.{archives_more}
use Rattle.mf_store_verdict.proofs.folders.add_archive.Goals as goal

pub returns : goal.returns
returns c all one = archives_more _ _ c.args.archive all one c.in_ok-push.ensures.items
