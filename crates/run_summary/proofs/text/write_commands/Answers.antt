use Rattle.std.proofs.Common.{sym, [], ◌∷◌, ◌++◌}
use Rattle.std.specs.Prelude.{codes, string_bytes}
use Rattle.std.proofs.lemmas.List.{append-nil}
use Rattle.run_summary.proofs.Pieces.{on}
use Rattle.load_gen.specs.Summary.{answer_lines}
use Rattle.run_summary.proofs.text.write_commands.Goals as goal

pub returns : goal.returns
returns c =
    let f = answer_lines c.args.answers.now in
    let start = string_bytes c.args.text.now in
    let h1 = on f start start (string_bytes c.write_answers.new.text) ([]) (codes "append") (sym (append-nil start)) c.in_ok-write_answers.ensures in
    let h2 = on f start (string_bytes c.write_answers.new.text) (string_bytes c.write_answers-2.new.text) ([] ++ codes "append" ∷ []) (codes "flush") (h1) c.in_ok-write_answers-2.ensures in
    let h3 = on f start (string_bytes c.write_answers-2.new.text) (string_bytes c.write_answers-3.new.text) (([] ++ codes "append" ∷ []) ++ codes "flush" ∷ []) (codes "ack") (h2) c.in_ok-write_answers-3.ensures in
    let h4 = on f start (string_bytes c.write_answers-3.new.text) (string_bytes c.write_answers-4.new.text) ((([] ++ codes "append" ∷ []) ++ codes "flush" ∷ []) ++ codes "ack" ∷ []) (codes "join") (h3) c.in_ok-write_answers-4.ensures in
    let h5 = on f start (string_bytes c.write_answers-4.new.text) (string_bytes c.write_answers-5.new.text) (((([] ++ codes "append" ∷ []) ++ codes "flush" ∷ []) ++ codes "ack" ∷ []) ++ codes "join" ∷ []) (codes "follow") (h4) c.in_ok-write_answers-5.ensures in
    let h6 = on f start (string_bytes c.write_answers-5.new.text) (string_bytes c.write_answers-6.new.text) ((((([] ++ codes "append" ∷ []) ++ codes "flush" ∷ []) ++ codes "ack" ∷ []) ++ codes "join" ∷ []) ++ codes "follow" ∷ []) (codes "copy") (h5) c.in_ok-write_answers-6.ensures in
    let h7 = on f start (string_bytes c.write_answers-6.new.text) (string_bytes c.write_answers-7.new.text) (((((([] ++ codes "append" ∷ []) ++ codes "flush" ∷ []) ++ codes "ack" ∷ []) ++ codes "join" ∷ []) ++ codes "follow" ∷ []) ++ codes "copy" ∷ []) (codes "trim") (h6) c.in_ok-write_answers-7.ensures in
    let h8 = on f start (string_bytes c.write_answers-7.new.text) (string_bytes c.write_answers-8.new.text) ((((((([] ++ codes "append" ∷ []) ++ codes "flush" ∷ []) ++ codes "ack" ∷ []) ++ codes "join" ∷ []) ++ codes "follow" ∷ []) ++ codes "copy" ∷ []) ++ codes "trim" ∷ []) (codes "expire") (h7) c.in_ok-write_answers-8.ensures in
    let h9 = on f start (string_bytes c.write_answers-8.new.text) (string_bytes c.write_answers-9.new.text) (((((((([] ++ codes "append" ∷ []) ++ codes "flush" ∷ []) ++ codes "ack" ∷ []) ++ codes "join" ∷ []) ++ codes "follow" ∷ []) ++ codes "copy" ∷ []) ++ codes "trim" ∷ []) ++ codes "expire" ∷ []) (codes "clock") (h8) c.in_ok-write_answers-9.ensures in
    let h10 = on f start (string_bytes c.write_answers-9.new.text) (string_bytes c.write_answers-10.new.text) ((((((((([] ++ codes "append" ∷ []) ++ codes "flush" ∷ []) ++ codes "ack" ∷ []) ++ codes "join" ∷ []) ++ codes "follow" ∷ []) ++ codes "copy" ∷ []) ++ codes "trim" ∷ []) ++ codes "expire" ∷ []) ++ codes "clock" ∷ []) (codes "fetch") (h9) c.in_ok-write_answers-10.ensures in
    h10
