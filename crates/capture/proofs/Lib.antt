-- That `print_all` leaves nothing open but what it prints.
-- The proof of each function stands under its name.
pub mod One
