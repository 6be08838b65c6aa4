-- What a word names in the language without sections: for `sections_name_nothing_else`.
use Rattle.script_core.proofs.Common.{arith, ◌≡◌, ◌∷◌, [], ℕ, List, Bool, true, false, filter, not, bytes_eq, ap, refl, ◌∙◌, common_steps, Command}
use Rattle.std.proofs.Common.{find}
use Rattle.std.proofs.lemmas.Slice.Eq.{bytes_eq-Decides}
use Rattle.script_core.specs.Arguments.{commands}
use Rattle.script_core.specs.WithoutSections.{SectionsNameNothingElse, is_of_sections}

-- what is looked for is found, if a filter keeps it
find_kept : (wanted kept : Command → Bool) → ((command : Command) → wanted command ≡ true → kept command ≡ true) → (list : List Command)
    → find wanted list ≡ find wanted (filter kept list)
find_kept wanted kept keeps [] = refl
find_kept wanted kept keeps (command ∷ list) = grind (arith, common_steps, keeps command, find_kept wanted kept keeps list)

-- a command with a word of no section isn't of sections
is_kept : (word : List ℕ) → is_of_sections word ≡ false → (command : Command) → bytes_eq command.name word ≡ true
    → not (is_of_sections command.name) ≡ true
is_kept word apart command same =
    let is : command.name ≡ word = (bytes_eq-Decides command.name word).0 same in
    ap (λ (w : List ℕ). not (is_of_sections w)) is ∙ ap not apart

pub names_the_same : SectionsNameNothingElse
names_the_same limits word apart =
    find_kept (λ command. bytes_eq command.name word) (λ command. not (is_of_sections command.name)) (is_kept word apart) (commands limits)
