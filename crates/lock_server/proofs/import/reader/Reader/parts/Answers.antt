use Rattle.lock_server.proofs.Common.{ℕ, List, ◌++◌, ◌∙◌, ap, append_assoc, file_words, listed, note_words, number_words}
use Rattle.lock_server.proofs.ReaderLemmas.{fails}
use Rattle.lock_server.specs.Bytes.{inventory_words}
use Rattle.lock_server.proofs.ExportLaws.{three}
use Rattle.lock_server.proofs.import.reader.Reader.parts.Goals as goal

pub returns-in_err-rules : goal.returns-in_err-rules
returns-in_err-rules c y rest may is =
    fails _ c.from_residual.result _ _ c.from_residual.ensures.1 (c.in_err-rules.ensures y.rules (inventory_words y.inventory ++ rest) tt is)

pub returns-in_err-files : goal.returns-in_err-files
returns-in_err-files c y rest may is =
    let rules = c.in_ok-rules.ensures y.rules (inventory_words y.inventory ++ rest) tt is in
    fails _ c.from_residual-in_err-files.result _ _ c.from_residual-in_err-files.ensures.1
    (c.in_err-files.ensures y.inventory.files
    (listed number_words y.inventory.grants ++ (listed number_words y.inventory.crossed ++ (listed note_words y.inventory.notes ++ rest))) may
    (rules.1 ∙ append_assoc (listed file_words y.inventory.files)
    (listed number_words y.inventory.grants ++ (listed number_words y.inventory.crossed ++ listed note_words y.inventory.notes)) rest ∙ ap
    (λ (l : List ℕ). listed file_words y.inventory.files ++ l)
    (three (listed number_words y.inventory.grants) (listed number_words y.inventory.crossed) (listed note_words y.inventory.notes) rest)))

pub returns-in_err-grants : goal.returns-in_err-grants
returns-in_err-grants c y rest may is =
    let rules = c.in_ok-rules.ensures y.rules (inventory_words y.inventory ++ rest) tt is in
    let files = c.in_ok-files.ensures y.inventory.files
    (listed number_words y.inventory.grants ++ (listed number_words y.inventory.crossed ++ (listed note_words y.inventory.notes ++ rest))) may
    (rules.1 ∙ append_assoc (listed file_words y.inventory.files)
    (listed number_words y.inventory.grants ++ (listed number_words y.inventory.crossed ++ listed note_words y.inventory.notes)) rest ∙ ap
    (λ (l : List ℕ). listed file_words y.inventory.files ++ l)
    (three (listed number_words y.inventory.grants) (listed number_words y.inventory.crossed) (listed note_words y.inventory.notes) rest)) in
    fails _ c.from_residual-in_err-grants.result _ _ c.from_residual-in_err-grants.ensures.1
    (c.in_err-grants.ensures y.inventory.grants (listed number_words y.inventory.crossed ++ (listed note_words y.inventory.notes ++ rest)) tt files.1)

pub returns-in_err-crossed : goal.returns-in_err-crossed
returns-in_err-crossed c y rest may is =
    let rules = c.in_ok-rules.ensures y.rules (inventory_words y.inventory ++ rest) tt is in
    let files = c.in_ok-files.ensures y.inventory.files
    (listed number_words y.inventory.grants ++ (listed number_words y.inventory.crossed ++ (listed note_words y.inventory.notes ++ rest))) may
    (rules.1 ∙ append_assoc (listed file_words y.inventory.files)
    (listed number_words y.inventory.grants ++ (listed number_words y.inventory.crossed ++ listed note_words y.inventory.notes)) rest ∙ ap
    (λ (l : List ℕ). listed file_words y.inventory.files ++ l)
    (three (listed number_words y.inventory.grants) (listed number_words y.inventory.crossed) (listed note_words y.inventory.notes) rest)) in
    let grants = c.in_ok-grants.ensures y.inventory.grants (listed number_words y.inventory.crossed ++ (listed note_words y.inventory.notes ++ rest))
    tt files.1 in
    fails _ c.from_residual-in_err-crossed.result _ _ c.from_residual-in_err-crossed.ensures.1
    (c.in_err-crossed.ensures y.inventory.crossed (listed note_words y.inventory.notes ++ rest) tt grants.1)

pub returns-in_err-notes : goal.returns-in_err-notes
returns-in_err-notes c y rest may is =
    let rules = c.in_ok-rules.ensures y.rules (inventory_words y.inventory ++ rest) tt is in
    let files = c.in_ok-files.ensures y.inventory.files
    (listed number_words y.inventory.grants ++ (listed number_words y.inventory.crossed ++ (listed note_words y.inventory.notes ++ rest))) may
    (rules.1 ∙ append_assoc (listed file_words y.inventory.files)
    (listed number_words y.inventory.grants ++ (listed number_words y.inventory.crossed ++ listed note_words y.inventory.notes)) rest ∙ ap
    (λ (l : List ℕ). listed file_words y.inventory.files ++ l)
    (three (listed number_words y.inventory.grants) (listed number_words y.inventory.crossed) (listed note_words y.inventory.notes) rest)) in
    let grants = c.in_ok-grants.ensures y.inventory.grants (listed number_words y.inventory.crossed ++ (listed note_words y.inventory.notes ++ rest))
    tt files.1 in
    let crossed = c.in_ok-crossed.ensures y.inventory.crossed (listed note_words y.inventory.notes ++ rest) tt grants.1 in
    fails _ c.from_residual-in_err-notes.result _ _ c.from_residual-in_err-notes.ensures.1 (c.in_err-notes.ensures y.inventory.notes rest tt crossed.1)

pub returns : goal.returns
returns c y rest may is =
    let rules = c.in_ok-rules.ensures y.rules (inventory_words y.inventory ++ rest) tt is in
    let files = c.in_ok-files.ensures y.inventory.files
    (listed number_words y.inventory.grants ++ (listed number_words y.inventory.crossed ++ (listed note_words y.inventory.notes ++ rest))) may
    (rules.1 ∙ append_assoc (listed file_words y.inventory.files)
    (listed number_words y.inventory.grants ++ (listed number_words y.inventory.crossed ++ listed note_words y.inventory.notes)) rest ∙ ap
    (λ (l : List ℕ). listed file_words y.inventory.files ++ l)
    (three (listed number_words y.inventory.grants) (listed number_words y.inventory.crossed) (listed note_words y.inventory.notes) rest)) in
    let grants = c.in_ok-grants.ensures y.inventory.grants (listed number_words y.inventory.crossed ++ (listed note_words y.inventory.notes ++ rest))
    tt files.1 in
    let crossed = c.in_ok-crossed.ensures y.inventory.crossed (listed note_words y.inventory.notes ++ rest) tt grants.1 in
    let notes = c.in_ok-notes.ensures y.inventory.notes rest tt crossed.1 in
    (λ i. record { rules = rules.0 i; inventory = record { files = files.0 i; grants = grants.0 i; crossed = crossed.0 i; notes = notes.0 i } }, notes.1)
