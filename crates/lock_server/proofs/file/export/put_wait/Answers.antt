use Rattle.lock_server.proofs.ExportLemmas.{wait_put}
use Rattle.lock_server.proofs.file.export.put_wait.Goals as goal

pub returns : goal.returns
returns c =
    wait_put c.args.wait.now c.family_word.result c.mode_word-mode.result c.flag_word-detect.result _ _ _ _ _ _
    c.family_word.ensures c.mode_word-mode.ensures c.flag_word-detect.ensures c.put_all-at.ensures c.put_all.ensures
