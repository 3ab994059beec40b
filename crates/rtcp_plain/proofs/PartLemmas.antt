-- Parts of a text, one after the other. Some of them are written two at once.
use Rattle.std.proofs.Common.{◌≡◌, ◌++◌, ℕ, List, append_assoc}

pub three_pairs :
    (o0 o1 o2 o3 a b c d e f : List ℕ)
    → o1 ≡ o0 ++ a ++ b → o2 ≡ o1 ++ c ++ d → o3 ≡ o2 ++ e ++ f
    → o3 ≡ o0 ++ (a ++ b ++ c ++ d ++ e ++ f)
three_pairs o0 o1 o2 o3 a b c d e f h1 h2 h3 = rw (h3, h2, h1) (simp append_assoc)

pub three_parts :
    (o0 o1 o2 o3 a b c : List ℕ) → o1 ≡ o0 ++ a → o2 ≡ o1 ++ b → o3 ≡ o2 ++ c → o3 ≡ o0 ++ (a ++ b ++ c)
three_parts o0 o1 o2 o3 a b c h1 h2 h3 = rw (h3, h2, h1) (simp append_assoc)

pub six_parts :
    (o0 o1 o2 o3 o4 o5 o6 a b c d e f : List ℕ)
    → o1 ≡ o0 ++ a → o2 ≡ o1 ++ b → o3 ≡ o2 ++ c → o4 ≡ o3 ++ d → o5 ≡ o4 ++ e → o6 ≡ o5 ++ f
    → o6 ≡ o0 ++ (a ++ b ++ c ++ d ++ e ++ f)
six_parts o0 o1 o2 o3 o4 o5 o6 a b c d e f h1 h2 h3 h4 h5 h6 = rw (h6, h5, h4, h3, h2, h1) (simp append_assoc)

pub application_parts :
    (o0 o1 o2 o3 o4 o5 o6 a b c d e f g h : List ℕ)
    → o1 ≡ o0 ++ a → o2 ≡ o1 ++ b → o3 ≡ o2 ++ c ++ d → o4 ≡ o3 ++ e → o5 ≡ o4 ++ f → o6 ≡ o5 ++ g ++ h
    → o6 ≡ o0 ++ (a ++ b ++ c ++ d ++ e ++ f ++ g ++ h)
application_parts o0 o1 o2 o3 o4 o5 o6 a b c d e f g h h1 h2 h3 h4 h5 h6 = rw (h6, h5, h4, h3, h2, h1)
    (simp append_assoc)

pub sender_parts :
    (o0 o1 o2 o3 o4 o5 o6 o7 a b c d e f g h i j : List ℕ)
    → o1 ≡ o0 ++ a → o2 ≡ o1 ++ b → o3 ≡ o2 ++ c → o4 ≡ o3 ++ d → o5 ≡ o4 ++ e ++ f → o6 ≡ o5 ++ g ++ h →
    o7 ≡ o6 ++ i ++ j
    → o7 ≡ o0 ++ (a ++ b ++ c ++ d ++ e ++ f ++ g ++ h ++ i ++ j)
sender_parts o0 o1 o2 o3 o4 o5 o6 o7 a b c d e f g h i j h1 h2 h3 h4 h5 h6 h7 = rw (h7, h6, h5, h4, h3, h2, h1)
    (simp append_assoc)
