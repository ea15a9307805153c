-- What people are told of a text that is not read.
use Rattle.std.specs.Prelude.{ℕ, ◌+◌, ◌-◌, ◌^◌, min, cond, List, [], ◌∷◌, ◌++◌, codes, decimal, slice_index_or, Some, None, Option}
use Rattle.std.specs.Str.{is_utf8}
use Rattle.refusal.specs.declared.Refusal.{Refusal}
use Rattle.refusal.specs.Turned.{turned, turned_text}
use Rattle.text.specs.declared.cut.Stop.{Stop}
use Rattle.text.specs.declared.fault.Expected.{Expected}
use Rattle.text.specs.declared.fault.Fault.{Fault}
use Rattle.text.specs.declared.misread.Misread.{Misread}
use Rattle.text.specs.Cut.{stops, cut}
use Rattle.text.specs.Law.{kept_words}

-- what a command is
abbrev pub command_phrase : List ℕ
command_phrase =
    codes "`put A B`, `later A B C`, `forget`, `sleep`, `wake` or `rule A B C D E F G H`"
    ++ codes ", each number below 4294967296, D and F 0 or 1"

-- what a line should have been
abbrev pub phrase : Expected → List ℕ
phrase Expected.Event = codes "`read`, `up`, `frame`, `hit` or `tick`"
phrase Expected.Read = codes "`read I V`, I below 16 and V below 65536"
phrase Expected.Up = codes "`up N` and " ++ command_phrase
phrase Expected.Frame = codes "`frame` and twelve numbers below 18446744073709551616"
phrase Expected.Hit =
    codes "`hit C W V`, C below 3, W below "
    ++ (decimal kept_words ++ codes " and V below 18446744073709551616")
phrase Expected.Tick = codes "`tick` alone"
phrase Expected.Command = command_phrase
phrase Expected.TickFirst = codes "`tick` before another frame comes up"

-- a line as people see it
abbrev pub shown : List ℕ → List ℕ
shown bs = cond (is_utf8 bs) bs (codes "what is no text")

-- people count lines from 1
abbrev pub number_from_1 : ℕ → ℕ
number_from_1 n = min (n + 1) (2 ^ 64 - 1)

-- a line at fault is refused by its number; want of memory is no refusal
abbrev pub refusal_of : Fault → Option Refusal
refusal_of (Fault.Unreadable n x) = Some (Refusal.Unreadable n)
refusal_of Fault.Memory = None

-- the line that programs know
abbrev pub for_programs : Option Refusal → List ℕ
for_programs None = []
for_programs (Some r) = turned_text (turned r) ++ (10 ∷ [])

-- the line for people: their line m should have been x, and y was found
abbrev pub explained : (program of : List ℕ) (m : ℕ) (x y : List ℕ) → List ℕ
explained program of m x y =
    program ++ (codes ": line " ++ (decimal m
    ++ (of ++ (codes ": expected " ++ (x ++ (codes "; found " ++ y))))))

abbrev pub for_people : (program of text : List ℕ) → Fault → List ℕ
for_people program of text (Fault.Unreadable n x) =
    explained program of (number_from_1 n) (phrase x)
    (shown (slice_index_or (cut (stops Stop.Line) text) n []))
for_people program of text Fault.Memory = program ++ codes ": no memory left"

abbrev pub misread_text : Misread → List ℕ
misread_text m =
    for_programs (refusal_of m.fault) ++ for_people m.program.now m.of.now m.text.now m.fault
