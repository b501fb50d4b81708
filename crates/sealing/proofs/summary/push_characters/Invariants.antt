use Rattle.std.proofs.Common.{◌≡◌, ◌++◌, drop, encode_utf8, string_bytes}
use Rattle.std.specs.List.{flat_map}
use Rattle.sealing.proofs.summary.push_characters.Given as goal

-- with what is still to come the text is whole
abbrev pub invariant-loop-character : goal.invariant-loop-character
invariant-loop-character l =
    string_bytes l.text ++ flat_map encode_utf8 (drop l.character-index l.characters) ≡ string_bytes l.fn.text ++ flat_map encode_utf8 l.characters
